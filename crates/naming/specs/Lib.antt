pub mod SortedNames
