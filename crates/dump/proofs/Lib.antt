-- Laws that the proofs cite.
mod PlanWays
mod Ways
