mod AsBox
mod FaultyWords
mod Spelled
