pub mod Count
pub mod Edge
pub mod MemoryShelf
pub mod MemorySink
pub mod Shelf
pub mod Sink
