-- The fixed texts of a page.
use Rattle.std.specs.Prelude.{ℕ, List, ◌++◌, codes}
use Rattle.desk_page.specs.declared.fixed.Table.{Table}
use Rattle.desk_page.specs.declared.fixed.Table.TheVariants.{Totals, Packages, Licences, Duties, Waivers, Changes}

-- up to the title
unfoldable pub page_start : List ℕ
page_start =
    codes "<!DOCTYPE html>\n<html lang=\"en\">\n<head>\n<meta charset=\"utf-8\">\n"
    ++ codes
    "<meta name=\"viewport\" content=\"width=device-width, initial-scale=1\">\n<title>Release "

-- from the title to the page's own text: how it looks on a screen, light or dark, and on paper
unfoldable pub style : List ℕ
style =
    codes
    "</title>\n<style>\n:root{color-scheme:light dark;--ink:#1d1d1f;--soft:#5c6168;--line:#d5d8dc;--paper:#fff}\n"
    ++ codes ":root{--accent:#2b6a99}\n@media screen and (prefers-color-scheme:dark){\n"
    ++ codes
    ":root{--ink:#e6e7e9;--soft:#a1a6ad;--line:#3b3f45;--paper:#16181b;--accent:#7db3dc}}\n"
    ++ codes
    "body{margin:0;background:var(--paper);color:var(--ink);font:16px/1.5 system-ui,sans-serif}\n"
    ++ codes "main{max-width:62rem;margin:0 auto;padding:2.5rem 1.25rem 4rem}\n"
    ++ codes
    "h1,h2,h3{font-weight:600;line-height:1.25;overflow-wrap:anywhere}\nh1{font-size:1.8rem;margin:0 0 .25rem}\n"
    ++ codes "h2{font-size:1.2rem;margin:3rem 0 .25rem}\nh3{font-size:1rem;margin:2rem 0 .5rem}\n"
    ++ codes "p{margin:0 0 .75rem;max-width:44rem;color:var(--soft)}\n"
    ++ codes
    "nav ul{display:flex;flex-wrap:wrap;gap:.25rem 1.25rem;margin:1rem 0 0;padding:0;list-style:none}\na{color:var(--accent)}\n"
    ++ codes "table{width:100%;border-collapse:collapse;font-size:.9rem}\n"
    ++ codes
    "th,td{padding:.4rem 1rem .4rem 0;border-bottom:1px solid var(--line);text-align:left}\n"
    ++ codes
    "th,td{vertical-align:top;overflow-wrap:anywhere}\nth:last-child,td:last-child{padding-right:0}\n"
    ++ codes "thead th{color:var(--soft);font-weight:500;overflow-wrap:normal}\n"
    ++ codes
    ".number{text-align:right;font-variant-numeric:tabular-nums}\n.lines{white-space:pre-line}\n"
    ++ codes
    "#duties td:nth-child(n+6),#waivers td:nth-child(4),#changes td:nth-child(-n+4){white-space:nowrap}\n"
    ++ codes
    "svg{display:block;width:100%;min-width:4rem;max-width:10rem;height:.75rem;margin-top:.3rem}\n"
    ++ codes "svg{box-sizing:border-box;border:1px solid var(--line)}\nrect{fill:var(--accent)}\n"
    ++ codes
    "pre{margin:0;font:.8rem/1.5 ui-monospace,monospace;white-space:pre-wrap;overflow-wrap:anywhere}\n"
    ++ codes
    "@page{size:A4;margin:18mm 15mm}\n@media print{\n:root{color-scheme:light}\nbody{font-size:10pt}\n"
    ++ codes
    "main{max-width:none;padding:0}\nnav{display:none}\na{color:inherit;text-decoration:none}\nthead{display:table-header-group}\n"
    ++ codes
    "tr,h1,h2,h3{break-inside:avoid}\nh1,h2,h3,h2+p{break-after:avoid}\n#notices{break-before:page}}\n</style>\n</head>\n<body>\n"
    ++ codes "<main>\n"

-- after the form: the contents
unfoldable pub contents : List ℕ
contents =
    codes ".</p>\n<nav aria-label=\"Contents\">\n<ul>\n<li><a href=\"#totals\">Totals</a></li>\n"
    ++ codes
    "<li><a href=\"#packages\">Packages</a></li>\n<li><a href=\"#licences\">Licences</a></li>\n"
    ++ codes
    "<li><a href=\"#duties\">Duties</a></li>\n<li><a href=\"#waivers\">Waivers that end</a></li>\n"
    ++ codes
    "<li><a href=\"#changes\">Changes</a></li>\n<li><a href=\"#notices\">Notices</a></li>\n</ul>\n</nav>\n"

-- before the notices: the heading of their section
unfoldable pub notices_start : List ℕ
notices_start =
    codes
    "<section id=\"notices\">\n<h2>Notices</h2>\n<p>The texts of the licences, to be handed on with the release.</p>\n"

-- after the rows of a table
unfoldable pub table_end : List ℕ
table_end =
    codes "</tbody>\n</table>\n"

-- after a table, or after the note that it has no rows
unfoldable pub section_end : List ℕ
section_end =
    codes "</section>\n"

-- after the notices
unfoldable pub page_end : List ℕ
page_end =
    codes "</section>\n</main>\n</body>\n</html>\n"

-- the heading of a table, and what it shows
unfoldable pub opening : Table → List ℕ
opening Totals =
    codes "<section id=\"totals\">\n<h2>Totals</h2>\n"
    ++ codes
    "<p>How many duties were raised at the freeze, and how many are in which state now.</p>\n"
opening Packages =
    codes
    "<section id=\"packages\">\n<h2>Packages</h2>\n<p>What ships, with the licences that were chosen for each package.</p>\n"
opening Licences =
    codes
    "<section id=\"licences\">\n<h2>Duties by licence</h2>\n<p>The bar shows the share that is open.</p>\n"
opening Duties =
    codes
    "<section id=\"duties\">\n<h2>Duties</h2>\n<p>What is owed for each package, and in which state it is.</p>\n"
opening Waivers =
    codes
    "<section id=\"waivers\">\n<h2>Waivers that end</h2>\n<p>After the last day the duty is owed again.</p>\n"
opening Changes =
    codes
    "<section id=\"changes\">\n<h2>Changes</h2>\n<p>What was recorded for each duty, from the freeze on.</p>\n"

-- the names of a table's columns
unfoldable pub columns : Table → List ℕ
columns Totals =
    codes
    "<table>\n<thead><tr><th scope=\"col\">State</th><th scope=\"col\" class=\"number\">Duties</th><th scope=\"col\">Share</th>"
    ++ codes "</tr></thead>\n<tbody>\n"
columns Packages =
    codes
    "<table>\n<thead><tr><th scope=\"col\">Package</th><th scope=\"col\">Version</th><th scope=\"col\">Licences</th>"
    ++ codes "<th scope=\"col\">Copyright</th></tr></thead>\n<tbody>\n"
columns Licences =
    codes
    "<table>\n<thead><tr><th scope=\"col\">Licence</th><th scope=\"col\" class=\"number\">Raised</th>"
    ++ codes
    "<th scope=\"col\" class=\"number\">Met</th><th scope=\"col\" class=\"number\">Waived</th>"
    ++ codes
    "<th scope=\"col\" class=\"number\">Withdrawn</th><th scope=\"col\" class=\"number\">Open</th><th scope=\"col\">Share</th>"
    ++ codes "</tr></thead>\n<tbody>\n"
columns Duties =
    codes
    "<table>\n<thead><tr><th scope=\"col\">Duty</th><th scope=\"col\" class=\"number\">Document</th><th scope=\"col\">Package</th>"
    ++ codes
    "<th scope=\"col\">Licence</th><th scope=\"col\">Owed</th><th scope=\"col\">State</th><th scope=\"col\">Since</th>"
    ++ codes "</tr></thead>\n<tbody>\n"
columns Waivers =
    codes
    "<table>\n<thead><tr><th scope=\"col\">Duty</th><th scope=\"col\">Licence</th><th scope=\"col\">Owed</th>"
    ++ codes "<th scope=\"col\">Last day</th><th scope=\"col\">Reason</th></tr></thead>\n<tbody>\n"
columns Changes =
    codes
    "<table>\n<thead><tr><th scope=\"col\">Duty</th><th scope=\"col\">Day</th><th scope=\"col\">Change</th>"
    ++ codes "<th scope=\"col\">Until</th><th scope=\"col\">Text</th></tr></thead>\n<tbody>\n"
