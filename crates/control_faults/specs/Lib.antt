pub mod TurnFaults
