pub mod Paths
pub mod AllLaws
pub mod DirectLaws
pub mod ScopedLaws
pub mod LayoutLaws
