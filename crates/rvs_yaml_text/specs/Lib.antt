-- What the text of a line says, in the order in which it is to be read: bytes by their names, the
-- words of a line and the tokens of a flow collection, scalars and comments, tokens in a text, and
-- lines with their words.
pub mod Bytes
pub mod Word
pub mod Scalar
pub mod Tokens
pub mod Text
pub mod Printed
-- How the code reads it, and what its values stand for.
pub mod Kinds
pub mod Quotes
pub mod KeyView
pub mod LineView
pub mod TokenView
pub mod ScanView
pub mod WordView
