-- What the proofs about `Refusing` share.
mod Counting
