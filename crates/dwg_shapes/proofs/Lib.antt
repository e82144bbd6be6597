pub mod Known
pub mod VertexLoops
pub mod WhereCounted
