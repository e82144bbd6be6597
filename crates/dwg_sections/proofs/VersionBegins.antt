-- The version with whose bytes an input begins.
use Rattle.std.proofs.Common.{◌≡◌, ℕ, Bool, true, false, ◌||◌, List, length, take, bytes_eq, if◌then◌else◌, sym, ap, refl}
use Rattle.std.proofs.lemmas.Slice.Eq.{bytes_eq-Decides}
use Rattle.dwg_base.specs.Versions.{version_at, version_bytes}
use Rattle.dwg_base.specs.declared.version.Version.{Version}
use Rattle.dwg_base.specs.declared.version.Version.TheVariants.{Ac1014, Ac1015}
use Rattle.dwg_sections.specs.HeaderLines.{begins_with_version}

-- a version has six bytes
pub six : (version : Version) → length (version_bytes version) ≡ 6
six Ac1014 = refl
six Ac1015 = refl

-- what begins with the bytes of a version begins with those of the one by which it is read
pub begins_as_read : (bytes : List ℕ) → begins_with_version bytes ≡ true → take 6 bytes ≡ version_bytes (version_at bytes)
unfolding version_at
begins_as_read bytes begins = of_test (bytes_eq (take 6 bytes) (version_bytes Ac1014)) refl begins
  where
    of_test : (older : Bool) → bytes_eq (take 6 bytes) (version_bytes Ac1014) ≡ older → (older || bytes_eq (take 6 bytes) (version_bytes Ac1015)) ≡ true
        → take 6 bytes ≡ version_bytes (if older then Ac1014 else Ac1015)
    of_test true is either = (bytes_eq-Decides (take 6 bytes) (version_bytes Ac1014)).0 is
    of_test false is either = (bytes_eq-Decides (take 6 bytes) (version_bytes Ac1015)).0 either

-- what begins with the bytes of a version is read by it
pub read_as_begins : (bytes : List ℕ) (version : Version) → take 6 bytes ≡ version_bytes version → version ≡ version_at bytes
unfolding version_at
read_as_begins bytes Ac1014 begins = sym (ap (λ (first : List ℕ). if bytes_eq first (version_bytes Ac1014) then Ac1014 else Ac1015) begins)
read_as_begins bytes Ac1015 begins = sym (ap (λ (first : List ℕ). if bytes_eq first (version_bytes Ac1014) then Ac1014 else Ac1015) begins)

-- what begins with the bytes of a version begins with a version that is read
pub begins : (bytes : List ℕ) (version : Version) → take 6 bytes ≡ version_bytes version → begins_with_version bytes ≡ true
begins bytes Ac1014 first = ap (λ (six : List ℕ). bytes_eq six (version_bytes Ac1014) || bytes_eq six (version_bytes Ac1015)) first
begins bytes Ac1015 first = ap (λ (six : List ℕ). bytes_eq six (version_bytes Ac1014) || bytes_eq six (version_bytes Ac1015)) first
