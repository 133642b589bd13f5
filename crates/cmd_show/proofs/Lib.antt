pub mod PictureLaws
