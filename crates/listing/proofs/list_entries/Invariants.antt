-- `listing::list_entries`: after k turns the run stands before entry k, and the lines so far stand behind the heading (`Listings`).
use Rattle.std.proofs.Common.{◌≡◌}
use Rattle.listing.proofs.Listings.{Listing}
use Rattle.listing.proofs.list_entries.Given as goal

abbrev pub invariant-loop : goal.invariant-loop
invariant-loop l = (l.walk.index ≡ l.counter) × Listing l.file l.initial.text l.text l.walk l.lent
