pub mod StartLaws
pub mod PeriodLaws
pub mod FormulaLaws
pub mod ExistsLaws
pub mod DateLaws
pub mod CalendarLaws
