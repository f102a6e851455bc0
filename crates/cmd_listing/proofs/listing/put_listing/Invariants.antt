use Rattle.std.proofs.Common.{◌≡◌, ◌+◌, ◌*◌, drop}
use Rattle.v8_map.specs.declared.TheConstants.{CODE_START}
use Rattle.cmd_listing.proofs.Listings.{IsListedTo}
use Rattle.cmd_listing.proofs.listing.put_listing.Given as goal

-- the lines of the words so far are written, and those of the words that are left make the listing whole
abbrev pub invariant-loop-word : goal.invariant-loop-word
invariant-loop-word g l = (l.address ≡ CODE_START + 4 * l.word-index)
    × IsListedTo l.words l.address (drop l.word-index l.words) (g.O.Write.contents l.fn.out) (g.O.Write.contents l.out)
