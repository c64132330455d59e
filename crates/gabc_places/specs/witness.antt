pub mod DecoderEvents
