-- Paths and chains: lists of distinct things, each of which leads to the next.
pub mod Paths
-- How paths and chains are sought among finitely many things: by steps, of which as many are tried as there are things.
pub mod Ways
-- Tables of places: where each place leads, which are goals, and whose member each is.
pub mod Tables
-- Tests of finitely many things by which a chain of them is found: they distinguish things, and pass few.
pub mod ChainTests
-- Steps and tests over the places of a list that say what steps and tests over the things there say.
pub mod ThingsAtPlaces
-- Numbers that things are given, and what must hold of them so that they report of paths and chains.
pub mod Numbered
-- Marks of places.
pub mod Marks
-- What is known of the ranks of places while they are sought.
pub mod RankMarks
-- What the marks of places and of homes say while chains are sought.
pub mod ChainMarks
