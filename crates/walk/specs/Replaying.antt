-- How far a replay of a good store's letters is, and what it tells with each letter, for the contracts of src/replay.rt.
use Rattle.std.specs.Prelude.{ℕ, ◌+◌, ◌-◌, ◌≤◌, ◌<◌, ◌≡◌, Option, MatchOption}
use Rattle.std.specs.Iterator.{Count, at_most}
use Rattle.partners.specs.Table.{LetterPartners}
use Rattle.store.specs.Good.{Good}
use Rattle.store.specs.Layout.{size_in}
use Rattle.walk.specs.Frame.{Frames}
use Rattle.walk.specs.Replay.{Holds}
use Rattle.walk.specs.declared.replay.Replay.{Replay}

-- the replay may go on: it has read as many letters of a good store as it says, and what it keeps is that store's
pub record Ready (r : Replay) : Type 0 where
  pub good : Good r.store.now
  pub frames : Frames r.store.now r.frame
  pub letter_partners : LetterPartners r.frame.reading r.partners
  pub within : r.read ≤ size_in r.store.now
  pub holds : Holds r.store.now r.read r.row

-- one step, from s to t: where letters are left, the place of the next and the row that t has; where none is, nothing
pub record Tells (s : Replay) (told : Option (ℕ × ℕ)) (t : Replay) : Type 0 where
  pub store-is : t.store.now ≡ s.store.now
  pub step_is : MatchOption told ((size_in s.store.now ≤ s.read) × (t.read ≡ s.read))
      (λ p. (p.0 ≡ s.read) × (p.0 < size_in s.store.now) × (t.read ≡ s.read + 1) × (t.row ≡ p.1))

-- how many letters are left
abbrev pub letters_left : Replay → Count
letters_left r = at_most (size_in r.store.now - r.read)
