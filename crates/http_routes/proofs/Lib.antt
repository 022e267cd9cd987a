mod Longs
mod Paths
mod Places
mod Rows
mod Served
