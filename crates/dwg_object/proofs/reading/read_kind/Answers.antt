use Rattle.std.proofs.Common.{◌≡◌, true, refl, subst, arith}
use Rattle.dwg_bits.specs.Cursor.{rest}
use Rattle.dwg_kinds.specs.declared.kind.Kind.{Kind}
use Rattle.dwg_object.specs.OwnBits.{AreOwn}
use Rattle.dwg_object.proofs.PlainLemmas.{common_of_plain}
use Rattle.dwg_object.proofs.TypedLemmas.{common_of_typed, own_left_unread, own_read, own_unread, typed_of_own}
use Rattle.dwg_object.proofs.reading.read_kind.Goals as goal
use Rattle.dwg_object.proofs.reading.read_kind.Goals.{in_default-2-via-in-Some-2+else-is_read_out, in_default-2-via-in_default-2}

pub returns-in_default-clause-form : goal.returns-in_default-clause-form
returns-in_default-clause-form c = λ classes same.
    let clauses = rw c.in_default.is at c.in_ok-prefix.ensures in
    let none = clauses.none refl classes same in
    c.raw_object.ensures.form classes (λ plain. none (common_of_plain plain)) (λ typed. none (common_of_typed typed))

pub read_untyped-requires-clause-untyped : goal.read_untyped-requires-clause-untyped
read_untyped-requires-clause-untyped c = λ has.
    let own = c.args.found.now.head.own in
    let main = rest c.in-Some.prefix.main in
    let refs = rest c.in-Some.prefix.refs in
    elim c.in_default-2.branch [
      | in_default-2-via-in-Some-2+else-is_read_out w ↦
          let clauses = rw w.in-Some-2.is at c.in_ok-value.ensures in
          own_left_unread c.args.version c.args.kind own main refs (rest c.parse.new.main) (rest c.parse.new.refs) w.in-Some-2.value (omega (arith, c.value-base.ensures)) clauses.parsed
          (λ none few. let out : w.is_read_out.result ≡ true = w.is_read_out.ensures.1 (none, few) in absurd cc) has
      | in_default-2-via-in_default-2 w ↦
          let clauses = rw w.in_default-2.is at c.in_ok-value.ensures in
          own_unread c.args.version c.args.kind own main refs (omega (arith, c.value-base.ensures)) clauses.parsed has
    ]

pub returns-in-Some-2-clause-form : goal.returns-in-Some-2-clause-form
returns-in-Some-2-clause-form c = λ classes same.
    let own = c.args.found.now.head.own in
    let main = rest c.in-Some.prefix.main in
    let refs = rest c.in-Some.prefix.refs in
    let left = rest c.parse.new.refs in
    let cut = rw c.in-Some.is at c.in_ok-prefix.ensures in
    let clauses = rw c.in-Some-2.is at c.in_ok-value.ensures in
    let ends = c.if-is_read_out.ensures.0 refl in
    let are = own_read c.args.version c.args.kind own main refs (rest c.parse.new.main) left c.in-Some-2.value (omega (arith, c.value-base.ensures)) clauses.parsed ends.0 ends.1 in
    typed_of_own (cut.form classes same) (subst (λ (k : Kind). AreOwn c.args.version k own c.in-Some-2.value main refs left) same are)
