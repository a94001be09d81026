pub mod CheckedFolders
