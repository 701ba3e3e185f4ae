pub mod Clusters
pub mod Copies
pub mod Walks
