use Rattle.std.proofs.Common.{[], ◌∷◌, sym, refl, ap, ◌∙◌, subst, arith}
use Rattle.std.proofs.lemmas.List.{map-append, length-map}
use Rattle.jobs.specs.Sets.{bits}
use Rattle.jobs.proofs.Lists.{few_jobs}
use Rattle.facilities.specs.Lines.{Later, chosen, Leads, morning}
use Rattle.facilities.specs.LinesLemmas.{leads_on, lined_on, lined_last}
use Rattle.facilities.specs.Rows.{row_list}
use Rattle.facilities.proofs.bench.line.LineTrial.take.Goals as goal

pub returns-in_default-clause-took : goal.returns-in_default-clause-took
returns-in_default-clause-took c =
    let l = c.args.self.now in
    let out = rw c.from.ensures at c.in_default.ensures in
    (λ lined. out (lined_last (row_list l.batch.rows) (morning l.batch.set) l.steps.items l.at c.args.choice l.leads lined), refl)

pub push-requires : goal.push-requires
push-requires c =
    let l = c.args.self.now in
    omega (arith, c.requires.room, few_jobs (bits l.batch.set), length-map l.steps.items (λ s. s.job))

pub invariant_of-self : goal.invariant_of-self
invariant_of-self c =
    let l = c.args.self.now in
    let rows = row_list l.batch.rows in
    let first = morning l.batch.set in
    let ss = l.steps.items in
    let later = subst (λ j. Later rows l.at j c.in-Some.next) c.from.ensures c.in-Some.ensures in
    record { leads = subst (λ ts. Leads rows first ts c.in-Some.next) (sym c.push.ensures.items) (leads_on rows first ss l.at c.args.choice c.in-Some.next l.leads later) }

pub returns : goal.returns
returns c =
    let l = c.args.self.now in
    let ss = l.steps.items in
    let x = c.args.choice in
    let later = subst (λ j. Later (row_list l.batch.rows) l.at j c.in-Some.next) c.from.ensures c.in-Some.ensures in
    record {
      same = refl;
      took = (lined_on (row_list l.batch.rows) (morning l.batch.set) ss l.at x l.leads later.can, ap chosen c.push.ensures.items ∙ map-append (λ s. s.job) ss (record { job = x; before = l.at } ∷ []));
    }
