mod Admitting
mod Counting
mod Filling
mod PresentSums
mod Solving
