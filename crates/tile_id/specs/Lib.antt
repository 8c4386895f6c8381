pub mod Gid
