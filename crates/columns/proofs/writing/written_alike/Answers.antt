use Rattle.store.proofs.Layouts.{layout_one_lem}
use Rattle.columns.proofs.writing.written_alike.Goals as goal

pub returns : goal.returns
returns g c = λ e.
    let xs = g.C.Column.items c.args._one.now in
    let ys = g.D.Column.items c.args._other.now in
    let kind = g.met.C.Kind.Kind in
    let h = g.met.C.Column.lawful c.args._one.now in
    let k = g.met.D.Column.lawful c.args._other.now in
    kind.single xs ys h k (layout_one_lem (g.C.Kind.Kind.form xs) (g.C.Kind.Kind.form ys) (kind.formed xs h) (kind.formed ys k) e)
