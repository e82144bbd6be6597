-- The name of an application (Open Design Specification, "APPID").
use Rattle.std.specs.Prelude.{ℕ}
use Rattle.dwg_grammar.specs.Codes.{rc}
use Rattle.dwg_grammar.specs.Combinators.{◌⋄◌}
use Rattle.dwg_grammar.specs.Bodies.{BodyGrammar}
use Rattle.dwg_grammar.specs.MakingBodies.{body}
use Rattle.dwg_grammar.specs.References.{one_ref}
use Rattle.dwg_tables.specs.declared.app_id.AppId.{AppId}
use Rattle.dwg_tables.specs.Entries.{entry_main, title_of, entry_of}

-- the entry's; RC extra; and among the references xref
unfoldable pub app_id_body : ℕ → BodyGrammar AppId
app_id_body base =
    body (entry_main ⋄ rc) (λ parsed. one_ref base)
    (λ (title, extra) xref. record { entry = entry_of title xref; extra = extra }) (λ app. (title_of app.entry, app.extra)) (λ app. app.entry.xref)
