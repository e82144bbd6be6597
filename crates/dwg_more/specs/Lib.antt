-- ELLIPSE.
pub mod Ellipses
-- RAY and XLINE.
pub mod Rays
-- SOLID and TRACE.
pub mod Solids
-- 3DFACE.
pub mod Faces
-- POLYLINE (3D) and VERTEX (3D).
pub mod Polylines
-- GROUP.
pub mod Groups
-- The corners of a face are codes.
pub mod CornerLaws
-- The bodies of further kinds meet the laws of bodies.
pub mod MoreLaws
