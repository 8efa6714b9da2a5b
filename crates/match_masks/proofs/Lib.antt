-- Lists filled from their start, then the masks of whole labels.
pub mod Filling
pub mod Depths
pub mod Labels
