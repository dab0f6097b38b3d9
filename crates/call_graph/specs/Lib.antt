pub mod Graph
pub mod CallGraph
