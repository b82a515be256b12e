mod Reach
mod Within
mod Order
mod Standing
mod Grid
