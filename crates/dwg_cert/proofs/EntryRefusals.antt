-- The line on entries refuses the first entry that fails.
use Rattle.std.proofs.Common.{◌≡◌, sym, ◌∙◌, ap, ℕ, ◌<◌, List, arith}
use Rattle.std.specs.Prelude.{Err}
use Rattle.dwg_base.specs.Refusal.{Refusal}
use Rattle.dwg_cert.specs.CertificateLines.{RefusesEntry, count_at, entry_fails, first_failing, tried_certificate}
use Rattle.dwg_cert.specs.CertificateLaws.{RefusedEntryIsFirst}
use Rattle.dwg_cert.proofs.EntryReading.{some_of_tried, tried_of_some}
use Rattle.dwg_cert.proofs.EntryTests.{fails_from_test, holds_from_test, test_from_fails, test_from_holds}
use Rattle.dwg_base.proofs.RangeSearch.{first_from_found, found_from_first}

-- an entry that is refused is the first that fails
first_refused : (bytes : List ℕ) (refusal : Refusal) → tried_certificate bytes ≡ Err refusal → RefusesEntry bytes refusal
unfolding first_failing
first_refused bytes refusal tried =
    let parts = some_of_tried bytes refusal tried in
    let is = first_from_found (entry_fails bytes) 0 (count_at bytes) parts.0 parts.1 in
    record {
      index = parts.0;
      inside = omega (arith, is.inside);
      reports = parts.2;
      fails = fails_from_test bytes parts.0 is.passes;
      first = λ earlier before. holds_from_test bytes earlier (is.before earlier (omega arith) before);
    }

-- the first entry that fails is refused
refused_first : (bytes : List ℕ) (refusal : Refusal) → RefusesEntry bytes refusal → tried_certificate bytes ≡ Err refusal
unfolding first_failing
refused_first bytes refusal is =
    let inside : is.index < count_at bytes = is.inside in
    tried_of_some bytes is.index
    (found_from_first (entry_fails bytes) 0 (count_at bytes) is.index (record {
      least = omega arith;
      inside = omega arith;
      passes = test_from_fails bytes is.index is.fails;
      before = λ k least below. test_from_holds bytes k (is.first k below);
    }))
    ∙ ap (λ (one : Refusal). Err one) (sym is.reports)

-- the line on entries refuses exactly the first entry that fails
pub refused_is_first : RefusedEntryIsFirst
refused_is_first bytes refusal = (first_refused bytes refusal, refused_first bytes refusal)
