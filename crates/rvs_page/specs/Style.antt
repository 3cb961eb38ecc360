-- The style of a page.
use Rattle.std.specs.Prelude.{ℕ, ◌++◌, List, [], ◌∷◌, codes}
use Rattle.rvs_page.specs.Pieces.{told}
use Rattle.rvs_page.specs.declared.pieces.Piece.TheVariants.{Html}

unfoldable pub colours : List ℕ
colours =
    told (Html (codes ":root{--bg:#fff;--fg:#1b1f24;--dim:#57606a;--line:#d0d7de;\n")
    ∷ Html (codes "--card:#f6f8fa;\n")
    ∷ Html (codes "--ok:#1a7f37;--bad:#cf222e;--no:#8a5d00;--badbg:#ffebe9;\n")
    ∷ Html (codes "--s:#2da44e;--u:#d4a72c;--k:#afb8c1;--h:#0969da;--m:#ffb8b0}\n")
    ∷ Html (codes "@media(prefers-color-scheme:dark){:root{--bg:#0d1117;--fg:#e6edf3;\n")
    ∷ Html (codes "--dim:#8d96a0;\n")
    ∷ Html (codes "--line:#30363d;--card:#161b22;--ok:#3fb950;--bad:#f85149;--no:#d29922;\n")
    ∷ Html (codes "--badbg:#3c1618;\n")
    ∷ Html (codes "--s:#2ea043;--u:#bb8009;--k:#484f58;--h:#388bfd;--m:#8e3a34}\n")
    ∷ Html (codes "header .verdict{color:#0d1117}}\n")
    ∷ Html (codes "*{box-sizing:border-box}\n")
    ∷ Html (codes "body{margin:0;background:var(--bg);color:var(--fg);\n")
    ∷ Html (codes "font:15px/1.5 system-ui,sans-serif}\n")
    ∷ Html (codes "main{max-width:1080px;margin:0 auto;padding:24px 20px 64px}\n")
    ∷ Html (codes "a{color:inherit}\n") ∷ [])

unfoldable pub frame_style : List ℕ
frame_style =
    told (Html (codes "h1{font-size:26px;line-height:1.2;margin:0;overflow-wrap:anywhere}\n")
    ∷ Html (codes "h2{font-size:18px;margin:36px 0 10px}\n")
    ∷ Html (codes "h3{font-size:15px;margin:0 0 4px;overflow-wrap:anywhere}\n")
    ∷ Html (codes "p{margin:0}\n")
    ∷ Html (codes "header{display:flex;flex-wrap:wrap;gap:12px 18px;align-items:center;\n")
    ∷ Html (codes "padding-bottom:18px;border-bottom:1px solid var(--line)}\n")
    ∷ Html (codes "header div{flex:1 1 240px;min-width:0}\n")
    ∷ Html (codes "header p{color:var(--dim);overflow-wrap:anywhere}\n")
    ∷ Html (codes "header .verdict{color:#fff;font-weight:700;font-size:20px;\n")
    ∷ Html (codes "letter-spacing:.04em;\n")
    ∷ Html (codes "padding:10px 18px;border-radius:8px}\n")
    ∷ Html (codes ".verdict.ok{background:var(--ok)}\n")
    ∷ Html (codes ".verdict.bad{background:var(--bad)}\n")
    ∷ Html (codes ".verdict.no{background:var(--no)}\n")
    ∷ Html (codes ".tiles{display:flex;flex-wrap:wrap;gap:10px;margin-top:18px}\n") ∷ [])

unfoldable pub numbers_style : List ℕ
numbers_style =
    told (Html (codes ".tiles div{background:var(--card);border:1px solid var(--line);\n")
    ∷ Html (codes "border-radius:8px;\n")
    ∷ Html (codes "padding:8px 14px;min-width:92px}\n")
    ∷ Html (codes ".tiles strong{display:block;font-size:22px;line-height:1.2}\n")
    ∷ Html (codes ".tiles span{color:var(--dim);font-size:13px}\n")
    ∷ Html (codes ".ok strong,b.ok{color:var(--ok)}\n")
    ∷ Html (codes ".bad strong,b.bad{color:var(--bad)}\n")
    ∷ Html (codes ".no strong,b.no{color:var(--no)}\n")
    ∷ Html (codes "table{border-collapse:collapse;width:100%;font-size:14px}\n")
    ∷ Html (codes "th,td{text-align:left;vertical-align:top;padding:5px 10px 5px 0;\n")
    ∷ Html (codes "border-bottom:1px solid var(--line)}\n")
    ∷ Html (codes "th{color:var(--dim);font-weight:600;font-size:13px;white-space:nowrap}\n")
    ∷ Html (codes ".n{text-align:right;font-variant-numeric:tabular-nums;\n")
    ∷ Html (codes "white-space:nowrap}\n")
    ∷ Html (codes "code,.key{font-family:ui-monospace,Menlo,Consolas,monospace;\n") ∷ [])

unfoldable pub failures_style : List ℕ
failures_style =
    told (Html (codes "font-size:13px}\n")
    ∷ Html (codes ".key{white-space:pre-wrap;overflow-wrap:anywhere}\n")
    ∷ Html (codes "code.bad{color:var(--bad);font-weight:700}\n")
    ∷ Html (codes ".wide{overflow-x:auto}\n")
    ∷ Html (codes ".fail{border:1px solid var(--line);border-left:4px solid var(--bad);\n")
    ∷ Html (codes "border-radius:6px;padding:10px 14px;margin:10px 0}\n")
    ∷ Html (codes ".fail table{margin-top:8px}\n")
    ∷ Html (codes ".fail .key{min-width:9em}\n")
    ∷ Html (codes ".fail tr:last-child td{border-bottom:0}\n")
    ∷ Html (codes ".fail details{border:0;margin-top:6px}\n")
    ∷ Html (codes ".share{width:20%;min-width:110px}\n")
    ∷ Html (codes ".off td{color:var(--dim)}\n")
    ∷ Html (codes ".bar{display:flex;height:12px;margin-top:5px;border-radius:3px;\n")
    ∷ Html (codes "overflow:hidden;\n")
    ∷ Html (codes "background:var(--card)}\n") ∷ [])

unfoldable pub bars_style : List ℕ
bars_style =
    told (Html (codes ".bar i{flex:0 1 0}\n")
    ∷ Html (codes ".s{background:var(--s)}\n")
    ∷ Html (codes "i.u{background:var(--u)}\n")
    ∷ Html (codes "i.k{background:var(--k)}\n")
    ∷ Html (codes ".h{background:var(--h)}\n")
    ∷ Html (codes ".m{background:var(--m)}\n")
    ∷ Html (codes ".legend{color:var(--dim);font-size:13px;margin-bottom:8px}\n")
    ∷ Html (codes ".legend i{display:inline-block;width:12px;height:12px;\n")
    ∷ Html (codes "border-radius:3px;\n")
    ∷ Html (codes "margin-left:10px;vertical-align:-1px}\n")
    ∷ Html (codes "details{border-bottom:1px solid var(--line);padding:6px 0}\n")
    ∷ Html (codes "summary{cursor:pointer;overflow-wrap:anywhere}\n")
    ∷ Html (codes "small{color:var(--dim);font-size:13px}\n")
    ∷ Html (codes ".points{margin:6px 0 10px}\n")
    ∷ Html (codes ".points td:first-child,.points td:nth-child(2){white-space:nowrap;\n") ∷ [])

unfoldable pub print_style : List ℕ
print_style =
    told (Html (codes "padding-right:16px}\n")
    ∷ Html (codes ".points td:nth-child(2){color:var(--dim)}\n")
    ∷ Html (codes ".points .key{width:100%}\n")
    ∷ Html (codes "tr.bad td{background:var(--badbg)}\n")
    ∷ Html (codes "tr.u td:first-child{color:var(--no)}\n")
    ∷ Html (codes "tr.k td{color:var(--dim)}\n")
    ∷ Html (codes "@media(max-width:480px){main{padding:16px 12px 40px}.points td{\n")
    ∷ Html (codes "padding-right:8px}}\n")
    ∷ Html (codes "@media print{main{max-width:none;padding:0}body{font-size:11px}\n")
    ∷ Html (codes "*{print-color-adjust:exact;-webkit-print-color-adjust:exact}\n")
    ∷ Html (codes ".wide{overflow:visible}article,tr{break-inside:avoid}}\n") ∷ [])

unfoldable pub style : List ℕ
style =
    colours ++ (frame_style ++ (numbers_style ++ (failures_style ++ (bars_style ++ print_style))))
