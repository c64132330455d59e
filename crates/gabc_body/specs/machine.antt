pub mod SyllableText
