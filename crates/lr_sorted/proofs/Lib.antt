pub mod EntryLaws
pub mod MemberLaws
pub mod OrderLaws
pub mod PlaceLaws
pub mod SelectLaws
pub mod SortedLaws
pub mod TournamentLaws
