pub mod GraphVerdict
