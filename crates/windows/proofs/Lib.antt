pub mod WindowList
