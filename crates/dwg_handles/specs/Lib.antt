-- What references and own handles are spelled by: a code, a count of bytes, and so many bytes of a number.
pub mod PartsCode
