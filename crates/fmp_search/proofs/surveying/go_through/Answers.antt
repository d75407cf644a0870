use Rattle.std.proofs.Common.{arith, rules, ◌≡◌, ◌∙◌, ◌+◌, ◌≤◌, length, Bool, true, false, List, refl, ap, sym, subst}
use Rattle.std.proofs.lemmas.List.{length-replicate}
use Rattle.fmp_search.specs.declared.nodes.Node.{Node}
use Rattle.fmp_search.specs.declared.surveying.Survey.{Survey}
use Rattle.fmp_search.specs.Answers.{Explored, IsShortest}
use Rattle.fmp_search.specs.Fronts.{Advances, IsOpen}
use Rattle.fmp_search.specs.Growth.{AreFound}
use Rattle.fmp_search.specs.Meeting.{AreNoted}
use Rattle.fmp_search.specs.Surveys.{IsThrough, Surveys}
use Rattle.fmp_search.proofs.Charted.{charting_none}
use Rattle.fmp_search.proofs.Fronts.{none_tried, stays_on}
use Rattle.fmp_search.proofs.Growth.{found_here}
use Rattle.fmp_search.proofs.Keys.{keyed_first}
use Rattle.fmp_search.proofs.Passed.{passed}
use Rattle.fmp_search.proofs.Layers.{explored-root, none-within}
use Rattle.fmp_search.proofs.Surveyed.{found_none, open_layer, passed_none, short_none, short_passed, short_within, shortest_here, stopped_by, through_all, through_by, through_last}
use Rattle.fmp_search.proofs.surveying.go_through.Goals as goal

pub returns-then-is_wanted : goal.returns-then-is_wanted
returns-then-is_wanted g c =
    let W = g.W.Space in
    let q = W.origin c.args.walker.now in
    let nodes = c.in_ok-store.store.nodes.items in
    let blank = c.in_ok-chart.ensures in
    let chart = charting_none W.after W.passes W.tells q nodes c.args.kept c.in_ok-chart.chart c.args.count blank in
    let there = c.in_ok-restart.ensures.there in
    let same = c.restart.ensures.origin in
    let is : W.wanted q ≡ true = subst (λ x. W.wanted x ≡ true) there (sym c.if-is_wanted.ensures) in
    let none = c.new-then-is_wanted.ensures.items in
    record {
      surveys = subst (λ (s : Survey). Surveys W.after W.passes W.tells W.wanted q c.args.turns c.args.most (g.P.Progress.over c.args.progress.now) c.args.kept c.args.count s) (sym c.of.ensures) (record {
        surveyed = record {
          found = found_none W.after q nodes c.in_ok-store.ensures.0;
          charted = chart.charted;
          noted = λ is. absurd (search (rules, is));
          left = λ not. let opened = blank.opened in omega (arith, opened);
          small = c.in_ok-store.store.small;
        };
        short = λ is. short_none W.after q nodes c.in_ok-chart.chart.edges c.args.turns blank.edges;
        through = (
          omega arith,
          subst (λ (ss : List _). length ss ≤ c.args.turns) (sym none) (omega arith),
          subst (λ (ss : List _). IsShortest W.after W.wanted q ss) (sym none) (shortest_here W.after q W.wanted is),
        );
        ended = tt;
        same = blank.same;
        marks = ap (λ (bs : List Bool). length bs) blank.marks ∙ length-replicate c.args.count false;
      });
      origin = same;
    }

pub loop-depth-init : goal.loop-depth-init
loop-depth-init g c =
    let W = g.W.Space in
    let q = W.origin c.args.walker.now in
    let nodes = c.in_ok-store.store.nodes.items in
    let blank = c.in_ok-chart.ensures in
    let there = c.in_ok-restart.ensures.there in
    let same = c.restart.ensures.origin in
    let clean : W.wanted q ≡ false = subst (λ x. W.wanted x ≡ false) there (sym c.if-is_wanted.ensures) in
    let tables = c.pack.new.tables in
    let key : W.IsKey q tables c.in_ok-first.first q = subst (λ p. W.IsKey q tables c.in_ok-first.first p) there (subst (λ x. W.IsKey x tables c.in_ok-first.first (W.place c.restart.new.self)) same c.in_ok-first.ensures.key.there) in
    let first : W.IsKey q c.in_ok-store.store.tables c.in_ok-first.first q = subst (λ t. W.IsKey q t c.in_ok-first.first q) (sym c.in_ok-store.ensures.3) key in record {
      opening = record {
        front = record {
          explored = subst (λ (ns : List Node). Explored W.after W.wanted q ns 0 (length ns + 1) 0) (sym {A = List Node} c.in_ok-store.ensures.0) (explored-root W.after W.wanted q clean);
          tried = none_tried W.after q nodes 0;
          keyed = keyed_first W.after q (W.IsKey q c.in_ok-store.store.tables) c.in_ok-store.store.keys nodes c.in_ok-first.first c.in_ok-store.ensures.0 c.in_ok-store.ensures.2 first;
        };
        charting = charting_none W.after W.passes W.tells q nodes c.args.kept c.in_ok-chart.chart c.args.count blank;
      };
      few = omega arith;
      stays = record {
        walker_origin = same;
        base_origin = c.requires.origin;
        same_room = c.in_ok-store.ensures.1;
        same = blank.same;
        marks = ap (λ (bs : List Bool). length bs) blank.marks ∙ length-replicate c.args.count false;
      };
      within = omega arith;
      passed = passed_none W.after q nodes;
    }

pub returns-then-begin-end : goal.returns-then-begin-end
returns-then-begin-end g c =
    let W = g.W.Space in
    let q = W.origin c.args.walker.now in
    let inv = c.loop-depth.invariant in
    let x = inv.opening.front.explored in
    let nodes = c.loop-depth.store.nodes.items in
    let opened = inv.opening.charting.opened in
    let depth = c.loop-depth.depth in
    let all : c.loop-depth.begin ≡ length nodes + 1 = c.if-begin-end.true ∙ c.count-end.ensures in
    record {
      surveys = subst (λ (s : Survey). Surveys W.after W.passes W.tells W.wanted q c.args.turns c.args.most (g.P.Progress.over c.loop-depth.progress) c.args.kept c.args.count s) (sym c.of-then-begin-end.ensures) (record {
        surveyed = record {
          found = found_here W.after q W.wanted nodes depth (length nodes + 1) c.loop-depth.begin x;
          charted = inv.opening.charting.charted;
          noted = λ is. subst (λ n. AreNoted W.after W.tells q nodes c.loop-depth.chart.marks.items n 0) (sym opened) inv.opening.charting.noted;
          left = λ not. absurd (not refl);
          small = c.loop-depth.store.small;
        };
        short = λ is. short_within W.after q nodes c.loop-depth.chart.edges depth c.args.turns inv.within
            (short_passed W.after q nodes c.loop-depth.chart.edges depth c.loop-depth.begin (inv.opening.charting.early is) inv.passed);
        through = subst (λ n. IsThrough W.after W.wanted q c.args.turns nodes depth n) (sym opened) (through_all W.after q W.wanted nodes depth c.loop-depth.begin c.args.turns inv.within x all inv.passed);
        ended = tt;
        same = inv.stays.same;
        marks = inv.stays.marks;
      });
      origin = inv.stays.walker_origin;
    }

pub open_layer-requires : goal.open_layer-requires
open_layer-requires g c =
    let W = g.W.Space in
    let inv = c.loop-depth.invariant in
    let same = inv.stays.walker_origin in
    let nodes = c.loop-depth.store.nodes.items in
    let few = inv.few in
    let count = c.count-end.ensures in
    record {
      opening = subst (λ k. IsOpen W.after (W.IsKey (W.origin c.loop-depth.walker) c.loop-depth.store.tables) c.loop-depth.store.keys W.passes W.tells W.wanted (W.origin c.loop-depth.walker) c.loop-depth.depth k nodes c.loop-depth.chart c.loop-depth.begin 0)
          (sym count)
          (subst (λ x. IsOpen W.after (W.IsKey x c.loop-depth.store.tables) c.loop-depth.store.keys W.passes W.tells W.wanted x c.loop-depth.depth (length nodes + 1) nodes c.loop-depth.chart c.loop-depth.begin 0) (sym same) inv.opening);
      place = omega (arith, few, count);
      origin = inv.stays.base_origin ∙ sym same;
    }

pub loop-depth-preserved : goal.loop-depth-preserved
loop-depth-preserved g c =
    let W = g.W.Space in
    let q = W.origin c.args.walker.now in
    let inv = c.loop-depth.invariant in
    let depth = c.loop-depth.depth in
    let end = c.count-end.result in
    let nodes = c.open_layer.new.store.nodes.items in
    let chart = c.open_layer.new.chart in
    let is = c.in_ok-how.ensures in
    let from = W.origin c.loop-depth.walker in
    let done = subst (λ h. Advances W.after (W.IsKey from c.open_layer.new.store.tables) c.open_layer.new.store.keys W.passes W.tells W.wanted from depth end c.loop-depth.store.most (g.P.Progress.over c.open_layer.new.progress) nodes chart end 0 h)
    c.in-Done.is is.advances in
    let opened_all = subst (λ x. IsOpen W.after (W.IsKey x c.open_layer.new.store.tables) c.open_layer.new.store.keys W.passes W.tells W.wanted x depth end nodes chart end 0) inv.stays.walker_origin done in
    let before = c.loop-depth-test.true in record {
      opening = open_layer W.after (W.IsKey q c.open_layer.new.store.tables) c.open_layer.new.store.keys W.passes W.tells W.wanted q depth end c.loop-depth.store.most true nodes chart end 0 refl opened_all;
      few = opened_all.front.explored.few;
      stays = stays_on W.origin q c.loop-depth.walker c.loop-depth.base c.open_layer.new.walker c.open_layer.new.base _ _ _ _ _ c.loop-depth.chart chart
          inv.stays is.stays;
      within = omega (arith, before);
      passed = passed W.after W.wanted q nodes depth end opened_all.front.explored;
    }

pub returns-in_default : goal.returns-in_default
returns-in_default g c =
    let W = g.W.Space in
    let q = W.origin c.args.walker.now in
    let inv = c.loop-depth.invariant in
    let old = c.loop-depth.store.nodes.items in
    let nodes = c.open_layer.new.store.nodes.items in
    let chart = c.open_layer.new.chart in
    let depth = c.loop-depth.depth in
    let end = c.count-end.result in
    let most = c.loop-depth.store.most in
    let over = g.P.Progress.over c.open_layer.new.progress in
    let how = c.in_ok-how.how in
    let not = c.in_default.not-Done in
    let is = c.in_ok-how.ensures in
    let stays = stays_on W.origin q c.loop-depth.walker c.loop-depth.base c.open_layer.new.walker c.open_layer.new.base _ _ _ _ _ c.loop-depth.chart chart
    inv.stays is.stays in
    let x = subst (λ x. Advances W.after (W.IsKey x c.open_layer.new.store.tables) c.open_layer.new.store.keys W.passes W.tells W.wanted x depth end most over nodes chart end 0 how) inv.stays.walker_origin is.advances in
    let stopped = stopped_by W.after (W.IsKey q c.open_layer.new.store.tables) c.open_layer.new.store.keys W.passes W.tells W.wanted q depth end most over nodes chart end 0 how not x in
    record {
      surveys = subst (λ (s : Survey). Surveys W.after W.passes W.tells W.wanted q c.args.turns c.args.most over c.args.kept c.args.count s) (sym c.of-in_default.ensures) (record {
        surveyed = record { found = stopped.0.found; charted = stopped.0.charted; noted = λ is. absurd (not is); left = λ it. stopped.0.left; small = c.open_layer.new.store.small };
        short = λ is. let lt = c.loop-depth-test.true in short_within W.after q nodes chart.edges (depth + 1) c.args.turns (omega (arith, lt)) (stopped.0.short is);
        through = through_by W.after (W.IsKey q c.open_layer.new.store.tables) c.open_layer.new.store.keys W.passes W.tells W.wanted q depth end most over nodes chart end 0 how c.args.turns c.args.most _ not c.loop-depth-test.true
            (none-within W.after W.wanted q old depth (length old + 1) c.loop-depth.begin inv.opening.front.explored) inv.stays.same_room x;
        ended = stopped.1;
        same = stays.same;
        marks = stays.marks;
      });
      origin = stays.walker_origin;
    }

pub returns : goal.returns
returns g c =
    let W = g.W.Space in
    let q = W.origin c.args.walker.now in
    let inv = c.loop-depth.invariant in
    let x = inv.opening.front.explored in
    let nodes = c.loop-depth.store.nodes.items in
    let opened = inv.opening.charting.opened in
    let most = c.loop-depth.auto.depth-end in
    let past = c.loop-depth-test.false in
    let last : c.loop-depth.depth ≡ c.args.turns = search (arith, most, past) in
    record {
      surveys = subst (λ (s : Survey). Surveys W.after W.passes W.tells W.wanted q c.args.turns c.args.most (g.P.Progress.over c.loop-depth.progress) c.args.kept c.args.count s) (sym c.of-2.ensures) (record {
        surveyed = record {
          found = subst (λ n. AreFound W.after q n nodes) last (found_here W.after q W.wanted nodes c.loop-depth.depth (length nodes + 1) c.loop-depth.begin x);
          charted = inv.opening.charting.charted;
          noted = λ is. subst (λ n. AreNoted W.after W.tells q nodes c.loop-depth.chart.marks.items n 0) (sym opened) inv.opening.charting.noted;
          left = λ not. absurd (not refl);
          small = c.loop-depth.store.small;
        };
        short = λ is. short_within W.after q nodes c.loop-depth.chart.edges c.loop-depth.depth c.args.turns inv.within
            (short_passed W.after q nodes c.loop-depth.chart.edges c.loop-depth.depth c.loop-depth.begin (inv.opening.charting.early is) inv.passed);
        through = subst (λ n. IsThrough W.after W.wanted q c.args.turns nodes c.args.turns n) (sym opened)
            (through_last W.after q W.wanted nodes c.loop-depth.depth c.loop-depth.begin c.args.turns last x inv.passed);
        ended = tt;
        same = inv.stays.same;
        marks = inv.stays.marks;
      });
      origin = inv.stays.walker_origin;
    }
