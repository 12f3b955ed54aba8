use mathlib.Core.Path.{◌≡◌, ap, sym, ◌∙◌, subst}
use Prim.Native.Nat.{ℕ, ◌%◌, ◌≤◌, ◌<◌}
use lib.ListN.{length}
use Rattle.formats.specs.Formats.{format_of}
use Rattle.formats.specs.declared.facts.Format.{Format}
use Rattle.write_sizes.proofs.RequestLaws.{lay_none, lay_short, lay_one}
use Rattle.write_sizes.proofs.asking.put_request.Goals.{After-format_of-header}
use Rattle.write_sizes.proofs.asking.put_request.Goals as goal

header_at : (c : After-format_of-header) → c.format_of-header.result.header ≡ (format_of c.args.format).header
header_at c =
    ap (λ (f : Format). f.header) c.format_of-header.ensures

pub returns-then-header-eq0 : goal.returns-then-header-eq0
returns-then-header-eq0 c =
    let a = c.args in let z = sym (header_at (goal.at.returns-then-header-eq0 c).After-format_of-header) ∙ c.if-header-eq0.true in
    (sym z, lay_none a.format (a.mode_request % 16) a.out.now z)

pub returns-then-out-header : goal.returns-then-out-header
returns-then-out-header c =
    let a = c.args in
    (header_at (goal.at.returns-then-out-header c).After-format_of-header, lay_short a.format (a.mode_request % 16) a.out.now (subst (λ (n : ℕ). length a.out.now < n) (header_at (goal.at.returns-then-out-header c).After-format_of-header) c.if-out-header.true))

pub returns : goal.returns
returns c =
    let a = c.args in
    (header_at (goal.at.returns c).After-format_of-header, lay_one a.format (a.mode_request % 16) a.out.now (λ z. c.if-header-eq0.false (header_at (goal.at.returns c).After-format_of-header ∙ z)) (subst (λ (n : ℕ). n ≤ length a.out.now) (header_at (goal.at.returns c).After-format_of-header) c.if-out-header.false))
