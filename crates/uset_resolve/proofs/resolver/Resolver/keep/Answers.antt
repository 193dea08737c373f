use Rattle.std.proofs.Common.{sym, subst, ◌∙◌}
use Rattle.prop_data.specs.Database.{tables_of}
use Rattle.uset_resolve.specs.Made.{of_origin}
use Rattle.uset_resolve.specs.Sources.{HasSource}
use Rattle.uset_resolve.proofs.MadeLemmas.{keeps_made}
use Rattle.uset_resolve.proofs.resolver.Resolver.keep.Goals as goal

pub invariant_of-self-2 : goal.invariant_of-self-2
invariant_of-self-2 c =
    let copied = c.in_ok-clone.ensures.cases ∙ c.in_ok-list.ensures.ok in
    let made = subst (λ list. HasSource list (of_origin (tables_of c.args.self.now) c.args.origin)) (sym copied) c.requires in
    keeps_made (tables_of c.self.inside.database.now) c.args.origin c.in_ok-clone.field-0 c.self.inside.made c.insert.new.self c.self.invariant
    (subst (λ database. HasSource c.in_ok-clone.field-0.value (of_origin (tables_of database) c.args.origin)) (sym c.self.view_is) made) c.in_ok-insert.ensures.updates
