pub mod SameMachineLaws
