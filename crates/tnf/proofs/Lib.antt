mod ChildLists
mod UsedLists
