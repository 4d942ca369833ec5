-- What one table of a catalogue is, and where its parts stand.
pub mod Parts
