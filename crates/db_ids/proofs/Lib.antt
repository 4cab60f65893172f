mod PlaceLaws
mod HeadLaws
