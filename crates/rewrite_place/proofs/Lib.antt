pub mod TableLaws
pub mod RoomLaws
