-- Certificates: which lists of entries are ones. A rule of this project.
use Rattle.std.specs.Prelude.{◌^◌, ◌<◌, List, AllPairs, IfSome}
use Rattle.std.specs.List.{AllByRecursion}
use Rattle.dwg_cert.specs.declared.entry.Entry.{Entry}

-- the numbers of an entry are below 2^62
pub record IsSmallEntry (entry : Entry) : Type 0 where
  pub rank : IfSome entry.rank (λ rank. rank < 2 ^ 62)
  pub chain : IfSome entry.chain (λ place. place < 2 ^ 62)

-- the handles of entries ascend: each is above all before it
abbrev pub HandlesAscend : List Entry → Type 0
HandlesAscend entries = AllPairs (λ one other. one.handle < other.handle) entries

-- these are the entries of a certificate
pub record IsCertificate (entries : List Entry) : Type 0 where
  pub ascending : HandlesAscend entries
  pub small : AllByRecursion IsSmallEntry entries

-- the handles of entries lie in the range of their type
abbrev pub HaveHandles : List Entry → Type 0
HaveHandles entries = AllByRecursion (λ entry. entry.handle < 2 ^ 63) entries
