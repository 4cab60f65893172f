pub mod SinkLaws
pub mod StreamLaws
