pub mod VerbLaws
pub mod KindLaws
pub mod ArgumentLaws
pub mod SpelledLaws
pub mod WordLaws
pub mod EventLaws
