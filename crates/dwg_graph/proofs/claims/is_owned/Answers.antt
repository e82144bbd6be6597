use Rattle.std.proofs.Common.{◌≡◌, sym, ap, ◌∙◌, ℕ}
use Rattle.std.specs.Prelude.{◌==◌}
use Rattle.std.proofs.lemmas.Option.{same_Some}
use Rattle.dwg_graph.specs.Owners.{owner_of}
use Rattle.dwg_graph.proofs.Counting.{value_there}
use Rattle.dwg_object.specs.Objects.{handle_of, value_of}
use Rattle.dwg_graph.proofs.claims.is_owned.Goals as goal

pub returns : goal.returns
returns c x stands =
    let object = c.index-objects-place.result in
    let same : value_of object ≡ x = same_Some (value_of object) x (sym (value_there c.args.objects.now c.args.place object c.requires.within c.index-objects-place.is) ∙ stands) in
    let owner : c.owner_of.result ≡ owner_of c.args.known.now x = c.owner_of.ensures ∙ ap (owner_of c.args.known.now) same in
    c.eq.ensures ∙ (ap (λ (h : ℕ). h == c.owner_of.result) c.handle.ensures ∙ ap (λ (o : ℕ). handle_of (value_of c.args.holder.now) == o) owner)
