mod Pairings
