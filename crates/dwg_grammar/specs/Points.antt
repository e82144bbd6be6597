-- Points of the plane as bits (Open Design Specification, "Bit codes").
use Rattle.std.specs.Prelude.{◌^◌, ◌<◌, Bool}
use Rattle.dwg_grammar.specs.Codes.{rd, dd}
use Rattle.dwg_grammar.specs.Combinators.{seq, shaped}
use Rattle.dwg_grammar.specs.Grammar.{Grammar}
use Rattle.dwg_grammar.specs.declared.points.Point2.{Point2}

-- the words of a point lie in the range of their type
pub record IsPoint2 (point : Point2) : Type 0 where
  pub x : point.x < 2 ^ 64
  pub y : point.y < 2 ^ 64

-- 2RD: x, y
abbrev pub rd2 : Grammar Bool Point2
rd2 = shaped (λ words. record { x = words.0; y = words.1 }) (λ point. (point.x, point.y)) (seq rd (λ x. rd))

-- 2DD: x against the x of a default, y against its y
abbrev pub dd2 : Point2 → Grammar Bool Point2
dd2 default = shaped (λ words. record { x = words.0; y = words.1 }) (λ point. (point.x, point.y)) (seq (dd default.x) (λ x. dd default.y))
