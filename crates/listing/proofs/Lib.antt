mod Printing
mod Turns
