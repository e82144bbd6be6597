-- A change of one byte, or of two neighbouring ones, changes a check word; so bytes that carry their check word never differ so.
use Rattle.std.specs.Prelude.{◌≡◌, ◌≢◌, ◌↔◌, ℕ, ◌^◌, ◌<◌, ◌≤◌, List, ◌++◌, length}
use Rattle.std.specs.Int.{w16, to_le_bytes}
use Rattle.dwg_base.specs.Bytes.{AreBytes}
use Rattle.dwg_check.specs.CheckWord.{check_word}

-- two runs of bytes differ in one byte alone, or in no more than two neighbouring ones
pub record DifferShortly (one other : List ℕ) : Type 0 where
  pub before : List ℕ
  pub here : List ℕ
  pub there : List ℕ
  pub after : List ℕ
  pub first : one ≡ before ++ here ++ after
  pub second : other ≡ before ++ there ++ after
  pub long : length here ≡ length there
  pub few : length here ≤ 2
  pub differ : here ≢ there

-- their check words differ
abbrev pub ShortDamageShows : Type 0
ShortDamageShows =
    (start : ℕ) (one other : List ℕ) → start < 2 ^ 16 → AreBytes one → AreBytes other → DifferShortly one other
    → check_word start one ≢ check_word start other

-- bytes followed by their check word, its low byte first, come to the word 0, and only by it
abbrev pub SealedIsZero : Type 0
SealedIsZero =
    (start : ℕ) (bytes seal : List ℕ) → start < 2 ^ 16 → AreBytes bytes → AreBytes seal → length seal ≡ 2
    → (seal ≡ to_le_bytes w16 (check_word start bytes)) ↔ (check_word start (bytes ++ seal) ≡ 0)

-- so of bytes that carry their check word and others that differ shortly from them, check word included, only one carries it
abbrev pub DamageUnderSealShows : Type 0
DamageUnderSealShows =
    (start : ℕ) (prefix body seal other word : List ℕ)
    → start < 2 ^ 16 → AreBytes prefix → AreBytes body → AreBytes seal → AreBytes other → AreBytes word → length seal ≡ 2 → length word ≡ 2
    → DifferShortly (body ++ seal) (other ++ word)
    → seal ≡ to_le_bytes w16 (check_word start (prefix ++ body)) → word ≡ to_le_bytes w16 (check_word start (prefix ++ other)) → ⊥
