pub mod MarkedVertices
pub mod Reading
