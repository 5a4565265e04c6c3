-- What crosses the border to C: a claim's numbers one by one, and what is handed out of an agreement (Border).
pub mod Border
