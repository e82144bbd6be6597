-- LINE.
pub mod Lines
-- POINT.
pub mod Points
-- CIRCLE.
pub mod Circles
-- ARC.
pub mod Arcs
-- LWPOLYLINE.
pub mod LwPolylines
-- What a reader of lightweight polylines has read, as the parts that the grammar gives.
pub mod PolylineReading
-- The ends of a line are a code.
pub mod EndLaws
-- The points of a lightweight polyline are a code, and so are lists that are there by their counts.
pub mod VertexLaws
-- The bodies of shapes meet the laws of bodies.
pub mod ShapeLaws
