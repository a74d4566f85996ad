use Rattle.std.proofs.Common.{◌≡◌, subst, sym}
use Rattle.std.proofs.lemmas.Result.{IfErr-weaker, IfOk-weaker}
use Rattle.warp_prog.specs.Load.{IsLoaded, IsRefused}
use Rattle.warp_prog.specs.View.{file_tree}
use Rattle.warp_prog.specs.declared.error.LoadError.TheVariants.{Memory}
use Rattle.warp_prog.proofs.LoadLemmas.{read-short}
use Rattle.warp_prog.proofs.loading.load_named.Goals as goal

pub returns-clause-program : goal.returns-clause-program
returns-clause-program c =
    IfOk-weaker c.with_names.result (λ l. l.program ≡ c.in_ok-read.read.program) (λ l. IsLoaded c.args.bytes.now l.program)
    (λ l e. subst (IsLoaded c.args.bytes.now) (sym e) c.in_ok-read.ensures.program)
    c.with_names.ensures.program

pub returns-clause-err : goal.returns-clause-err
returns-clause-err c =
    IfErr-weaker c.with_names.result (λ error. error ≡ Memory) (IsRefused c.args.bytes.now)
    (λ error m. subst (IsRefused c.args.bytes.now) (sym m) (read-short c.args.bytes.now (file_tree c.in_ok-read.read.file) c.in_ok-read.ensures.file))
    c.with_names.ensures.err
