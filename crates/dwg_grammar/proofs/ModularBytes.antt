-- What spells a modular char are bytes, at most ten.
use Rattle.std.proofs.Common.{◌≡◌, sym, ◌∙◌, ap, subst, ℕ, zero, suc, ◌-◌, ◌^◌, ◌<◌, ◌≤◌, Bool, true, false, List, [], ◌∷◌, ◌++◌, length, arith}
use Rattle.std.specs.Prelude.{ℤ, nat_lt}
use Rattle.dwg_base.specs.Bytes.{AreBytes}
use Rattle.dwg_grammar.specs.Combinators.{always, choose}
use Rattle.dwg_grammar.specs.ModularCodes.{Signed, last_of, after_group, mc_within, mc, signed_mc_within, signed_mc}
use Rattle.dwg_grammar.proofs.SignedLemmas.{after_signed}

-- bytes, so many at the most
pub record AreFewBytes (most : ℕ) (bytes : List ℕ) : Type 0 where
  pub few : length bytes ≤ most
  pub are_bytes : AreBytes bytes

-- a byte and few bytes after it
few_more : (most byte : ℕ) (prefix back bytes : List ℕ) → byte < 2 ^ 8 → prefix ≡ byte ∷ [] → bytes ≡ prefix ++ back → AreFewBytes most back → AreFewBytes (suc most) bytes
few_more most byte prefix back bytes small one same few = subst (AreFewBytes (suc most)) (sym (same ∙ ap (λ first. first ++ back) one)) (record {
  few = omega (arith, few.few);
  are_bytes = (small, few.are_bytes);
})

-- no bytes are few
none_few : (most : ℕ) (bytes : List ℕ) → bytes ≡ [] → AreFewBytes most bytes
none_few most bytes none = subst (AreFewBytes most) (sym none) (record { few = omega arith; are_bytes = tt })

-- what spells an MC of at most so many bytes are at most so many
pub mc_within_few : (most value : ℕ) (bytes : List ℕ) → (mc_within most).Spells value bytes → AreFewBytes most bytes
unfolding mc_within
mc_within_few zero value bytes spelled = absurd spelled
mc_within_few (suc more) value bytes (byte, prefix, back, (small, one), after, same) =
    few_more more byte prefix back bytes small one same (by_test (nat_lt byte 128) after (λ high spelled. mc_within_few more high back spelled))
  where
    by_test : (test : Bool) → (choose test (always byte) (after_group 128 (byte - 128) (mc_within more))).Spells value back
        → ((high : ℕ) → (mc_within more).Spells high back → AreFewBytes more back) → AreFewBytes more back
    by_test true after others = none_few more back after.1
    by_test false (high, same, spelled) others = others high spelled

-- what spells an MC are at most ten bytes
pub mc_few : (value : ℕ) (bytes : List ℕ) → mc.Spells value bytes → AreFewBytes 10 bytes
mc_few value bytes spelled = mc_within_few 10 value bytes spelled.1

-- what spells a sign and a magnitude of at most so many bytes are at most so many
pub signed_within_few : (most : ℕ) (value : Signed) (bytes : List ℕ) → (signed_mc_within most).Spells value bytes → AreFewBytes most bytes
unfolding signed_mc_within
signed_within_few zero value bytes spelled = absurd spelled
signed_within_few (suc more) value bytes (byte, prefix, back, (small, one), after, same) =
    few_more more byte prefix back bytes small one same (by_test (nat_lt byte 128) after (λ high spelled. signed_within_few more high back spelled))
  where
    by_test : (test : Bool) → (choose test (always (last_of byte)) (after_signed (byte - 128) (signed_mc_within more))).Spells value back
        → ((high : Signed) → (signed_mc_within more).Spells high back → AreFewBytes more back) → AreFewBytes more back
    by_test true after others = none_few more back after.1
    by_test false (high, same, spelled) others = others high spelled

-- what spells a signed MC are at most ten bytes
pub signed_mc_few : (value : ℤ) (bytes : List ℕ) → signed_mc.Spells value bytes → AreFewBytes 10 bytes
signed_mc_few value bytes (inner, same, spelled) = signed_within_few 10 inner bytes spelled.1
