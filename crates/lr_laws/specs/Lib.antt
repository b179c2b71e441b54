pub mod FairTurns
